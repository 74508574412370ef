pub mod GoesLaws
pub mod InputLaws
pub mod StatementLaws

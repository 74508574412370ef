pub mod WordLaws
pub mod DataLaws

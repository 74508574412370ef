pub mod DigitLaws
pub mod WordLaws
pub mod PartLaws
pub mod DeclLaws

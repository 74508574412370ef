pub mod Headlines
pub mod Reading
pub mod Taking
pub mod Running
pub mod Wording
pub mod AnswerLaws
pub mod Endings

pub mod Verbs
pub mod Statements
pub mod Reading

pub mod Rows
pub mod Answers
pub mod Clashes
pub mod Definitions

pub mod Lexical
pub mod Tokens
pub mod Readers
pub mod Reading

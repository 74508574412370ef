pub mod Keywords
pub mod Digits
pub mod Parts
pub mod Declarations
pub mod Reading
pub mod Declaring

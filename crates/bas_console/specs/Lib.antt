pub mod Layout
pub mod Line
pub mod Prints
pub mod Laws

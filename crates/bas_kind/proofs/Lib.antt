pub mod Agreements
pub mod Operators
pub mod Rows

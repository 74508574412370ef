pub mod Faults
pub mod Words
pub mod Rows
pub mod Whole
pub mod Samples

pub mod Operands
pub mod Parameters
pub mod Passing
pub mod Whole

pub mod Keys
pub mod Noting
pub mod Doubles
pub mod Lines
pub mod Refusing
pub mod Formals

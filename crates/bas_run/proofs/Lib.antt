pub mod Conditions
pub mod Lines
pub mod Meant
pub mod Programs
pub mod Spans

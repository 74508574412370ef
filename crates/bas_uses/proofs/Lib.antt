pub mod Appending
pub mod Conditions
pub mod Walk

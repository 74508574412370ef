pub mod Parting
pub mod Restoring
pub mod Bases
pub mod Found
pub mod Claiming
pub mod Lines
pub mod Defining

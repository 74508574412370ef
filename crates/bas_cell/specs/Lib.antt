pub mod Bounds
pub mod Holding
pub mod Live
pub mod Stored
pub mod Laws
pub mod Examples

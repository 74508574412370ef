pub mod Faults
pub mod Walks
pub mod Containers
pub mod Units
pub mod Refusals

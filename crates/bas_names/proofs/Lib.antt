pub mod Bodies
pub mod Dimensions
pub mod Internals
pub mod Lookups
pub mod Putting
pub mod Walking

pub mod Counts
pub mod Jumps
pub mod Numbering
pub mod Refusals
pub mod Sizes

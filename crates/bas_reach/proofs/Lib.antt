pub mod Counting
pub mod Layers
pub mod Constructs
pub mod Jumps
pub mod Misses

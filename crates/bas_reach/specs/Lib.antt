pub mod Sets
pub mod Standing
pub mod Lent
pub mod Placing

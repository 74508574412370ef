pub mod Elements
pub mod Fresh
pub mod Places

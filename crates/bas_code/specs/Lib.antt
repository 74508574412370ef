pub mod State
pub mod Guards
pub mod Machine
pub mod Images

pub mod Addresses
pub mod Emitting
pub mod Generated
pub mod Kinds
pub mod Layouts

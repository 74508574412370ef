pub mod Bodies
pub mod Examples
pub mod Lines
pub mod Nodes
pub mod Scope
pub mod Senses
pub mod Shapes
pub mod Supplied

pub mod Form
pub mod Reader
pub mod Element
pub mod Laws
pub mod Bytes
pub mod Quoted

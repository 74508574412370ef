pub mod Data
pub mod Reading
pub mod Laws

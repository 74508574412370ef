pub mod Constructs
pub mod Laws
pub mod Units
pub mod Reading
pub mod States

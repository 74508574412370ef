pub mod Words
pub mod Plains
pub mod Simples
pub mod Reading
pub mod Cut
pub mod Items
pub mod Itemizing

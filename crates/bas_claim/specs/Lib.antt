pub mod First
pub mod Headings
pub mod Sets

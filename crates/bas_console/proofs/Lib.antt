pub mod Wrapping
pub mod Printing
pub mod Pieces
pub mod Columns
pub mod LayoutLaws

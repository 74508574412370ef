pub mod Trim
pub mod DataItems
pub mod Reading
pub mod Strings
pub mod StringLaws

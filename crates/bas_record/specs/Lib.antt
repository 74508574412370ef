pub mod Words
pub mod Channels
pub mod Reading
pub mod Records
pub mod Recording

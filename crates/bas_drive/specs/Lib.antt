pub mod Answer
pub mod Ending
pub mod Report
pub mod Headline

pub mod Shown
pub mod Rows
pub mod Took
pub mod Fit
pub mod Steps
pub mod Runs

pub mod Reaching
pub mod Sounding
pub mod Accepting

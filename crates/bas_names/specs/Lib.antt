pub mod Law
pub mod Lent
pub mod Names
pub mod Tables

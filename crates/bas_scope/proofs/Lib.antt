pub mod Tables
pub mod SuppliedParts

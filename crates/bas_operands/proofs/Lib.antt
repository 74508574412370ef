pub mod Rows
pub mod Arguments
pub mod NamesAlone
pub mod NodeFaults
pub mod Walk
pub mod WalkConditions

pub mod Closing
pub mod Complete
pub mod CompleteUnits
pub mod Joined
pub mod Roles
pub mod Sound
pub mod SoundUnits
pub mod Trees

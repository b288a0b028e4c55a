pub mod Holds
pub mod Kept
pub mod Laid
pub mod Stored
pub mod Touched
pub mod Windows

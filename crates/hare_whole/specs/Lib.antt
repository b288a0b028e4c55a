pub mod Parts
pub mod Declared
pub mod Tags
pub mod Limits
pub mod Listing
pub mod Turns
pub mod Programs
pub mod Judged

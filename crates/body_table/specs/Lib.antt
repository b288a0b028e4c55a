pub mod Told
pub mod Shaped

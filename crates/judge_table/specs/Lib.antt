pub mod Shaped
pub mod Told

pub mod Functions
pub mod Ranges

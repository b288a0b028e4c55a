pub mod Seen
pub mod Sizes
pub mod Laws

pub mod Tight
pub mod Tightness

pub mod Acts
pub mod Blocks
pub mod Filling
pub mod Outside

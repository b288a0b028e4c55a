pub mod Plans
pub mod Taken

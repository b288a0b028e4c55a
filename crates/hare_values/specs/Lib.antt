pub mod Values
pub mod Judging

pub mod Programs
pub mod Finishing
pub mod Whole

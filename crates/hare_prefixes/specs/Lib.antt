pub mod Reading
pub mod Viable
pub mod Whole
pub mod Faults
pub mod Used

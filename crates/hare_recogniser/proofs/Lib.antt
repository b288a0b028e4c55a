pub mod GaugedRun
pub mod Marks
pub mod Told
pub mod Steps

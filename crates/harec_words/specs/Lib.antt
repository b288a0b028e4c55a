pub mod Commands
pub mod Spans
pub mod Reading
pub mod Parts
pub mod Faults

pub mod Marks
pub mod Gauge
pub mod Depth

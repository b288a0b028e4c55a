pub mod Joins
pub mod Breaks
pub mod Ways
pub mod Parts
pub mod Counts
pub mod Edges
pub mod Broken
pub mod Walk

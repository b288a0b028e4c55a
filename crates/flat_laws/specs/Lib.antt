pub mod Runs
pub mod Names
pub mod Counts
pub mod Calls
pub mod Heaps
pub mod Frames
pub mod Stacks
pub mod Starts

pub mod Grown
pub mod Spots
pub mod Walks
pub mod Verdicts
pub mod Counts

pub mod Graphs
pub mod Ranks

-- The tokens of a file stand in their order, and its declarations over them.
pub mod Ascending
pub mod Standing

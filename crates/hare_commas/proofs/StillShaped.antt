-- Commas behind last items keep a tree in the language, and pass no limit on depth.
pub mod Regular
pub mod Keeps
pub mod Shaped
pub mod Deep

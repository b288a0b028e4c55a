-- The finished trees of all declarations: each by its number, with its type and its parts, and all together.
pub mod Types
pub mod Numbered
pub mod Parts
pub mod Together

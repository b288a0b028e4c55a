-- A well-typed value has all that its constant rests on.
pub mod Literals
pub mod Heads
pub mod Whole

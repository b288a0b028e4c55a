-- The lines of code, put together: their blocks, the places in front of them, and the tests that they pass.
pub mod Counts
pub mod Drafts
pub mod Calls
pub mod Blocks
pub mod Emitting
pub mod Places
pub mod Allowed
pub mod EachInst

-- The walk over a text: past comments and blanks, token by token.
pub mod Passed
pub mod Walked

-- What stands at the front of a text is found there, and so a file has one list of tokens or one first break.
pub mod Same
pub mod Words
pub mod Literals
pub mod Breaks
pub mod Tokens
pub mod Unique

-- The token that the lexer finds first is the one with which a text begins, behind blanks or not.
pub mod Scanned
pub mod Lexed
pub mod Spelled

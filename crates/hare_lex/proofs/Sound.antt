-- What the lexer finds at the front of a text stands there, kind by kind.
pub mod Words
pub mod Marks
pub mod Numbers
pub mod Literals
pub mod Tokens

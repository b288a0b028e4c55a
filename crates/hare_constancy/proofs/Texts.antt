-- The texts are told that an equality compares: each is a string or the name of a def, in parentheses or not, cast to a text or not.
pub mod Rows
pub mod Operands
pub mod Kinds
pub mod Told

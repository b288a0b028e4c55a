-- What the readers of statements and of blocks find, and when the tokens of a text make it a file of the class.
pub mod Simple
pub mod Blocks
pub mod Sequences
pub mod Sources

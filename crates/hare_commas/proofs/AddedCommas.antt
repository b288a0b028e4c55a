-- Where commas are added among ways: the tokens then, the comments before each, and no comma before the first token of a tree.
pub mod Spread
pub mod Flags
pub mod Tokens
pub mod Plain

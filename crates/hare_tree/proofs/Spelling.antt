-- What a tree is spelled as, part by part, and what of it is left to be put.
pub mod Spelled
pub mod Owned
pub mod Stack
pub mod BeforeEnd

-- What the parts of expressions and of statements add together, one after the other.
pub mod Drafts
pub mod Kids
pub mod Lowered

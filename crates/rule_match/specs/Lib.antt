pub mod Patterns
pub mod Kinds
pub mod Needs
pub mod Laws

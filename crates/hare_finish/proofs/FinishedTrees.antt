-- The finished tree of a type, of a def or a global, and of a function with its parameters.
pub mod Types
pub mod Kinds
pub mod Bindings
pub mod Parameters
pub mod Functions

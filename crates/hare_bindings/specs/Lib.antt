pub mod Bindings
pub mod Own

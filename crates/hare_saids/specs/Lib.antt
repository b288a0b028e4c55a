pub mod Saids
pub mod Kinds

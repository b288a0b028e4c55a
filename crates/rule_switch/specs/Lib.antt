pub mod Kinds
pub mod Labels
pub mod Odd
pub mod Texts
pub mod Needs
pub mod Laws

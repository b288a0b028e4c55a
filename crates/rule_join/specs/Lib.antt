pub mod Kinds
pub mod Together
pub mod Cases
pub mod Breaks
pub mod Needs
pub mod Laws

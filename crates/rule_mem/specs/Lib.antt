pub mod Members
pub mod Filled
pub mod Asking
pub mod Kinds
pub mod Needs
pub mod Laws

pub mod Kinds
pub mod Jumps
pub mod Calls
pub mod Tried
pub mod Needs
pub mod Laws
pub mod Declaring
pub mod DeclaringLaws

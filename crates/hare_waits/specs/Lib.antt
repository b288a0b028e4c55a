pub mod Held
pub mod Nodes
pub mod Lists
pub mod Waits
pub mod Laws

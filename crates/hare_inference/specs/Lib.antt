pub mod Inferred
pub mod Lacking
pub mod Laws
pub mod Hands
pub mod Turns

pub mod Told
pub mod Enough
pub mod Settled

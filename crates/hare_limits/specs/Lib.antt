pub mod Homes
pub mod Stops

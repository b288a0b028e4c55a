pub mod Lexing
pub mod Fronts
pub mod Stops
pub mod Order
pub mod Sizes

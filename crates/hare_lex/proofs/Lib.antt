pub mod Fronts
pub mod Literals
pub mod Sound
pub mod Whole
pub mod Turns
pub mod Order

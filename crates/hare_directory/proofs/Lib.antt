pub mod TakenNames
pub mod ByNumbers

pub mod Amounts
pub mod Costs
pub mod Leaving
pub mod Sizes

pub mod OneList
pub mod Walk

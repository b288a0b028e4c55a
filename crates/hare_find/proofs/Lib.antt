pub mod Verdicts
pub mod Asked
pub mod SettlingNothing
pub mod FoundOfNode
pub mod BindingsSeen
pub mod YieldsSeen
pub mod Behind

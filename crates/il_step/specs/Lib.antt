pub mod Ends
pub mod Runs
pub mod Wants
pub mod Came
pub mod Stands
pub mod Comes

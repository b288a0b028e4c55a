pub mod Answers
pub mod Files
pub mod Heights
pub mod Runs
pub mod Steps

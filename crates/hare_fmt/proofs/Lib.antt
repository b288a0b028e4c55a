pub mod Sized
pub mod Answered

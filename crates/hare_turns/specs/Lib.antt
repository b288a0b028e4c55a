pub mod Stages
pub mod Laws
pub mod Ends
pub mod Known
pub mod Course
pub mod Types
pub mod Judged

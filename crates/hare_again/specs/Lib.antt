pub mod Again
pub mod Reading
pub mod Laid

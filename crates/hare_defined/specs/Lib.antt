pub mod Known
pub mod Search

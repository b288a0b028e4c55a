pub mod Meanings
pub mod Contexts
pub mod Steps
pub mod Carried
pub mod Failing
pub mod Agreed

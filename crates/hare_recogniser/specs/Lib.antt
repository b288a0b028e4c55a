pub mod Agenda
pub mod Capped
pub mod Deep
pub mod Gauged
pub mod Least
pub mod Limits
pub mod Width

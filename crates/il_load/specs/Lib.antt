pub mod Puts
pub mod Data
pub mod Arguments
pub mod Start

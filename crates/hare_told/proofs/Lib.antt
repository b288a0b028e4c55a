pub mod Steps
pub mod Labels
pub mod Yields
pub mod Verdicts
pub mod Targets
pub mod Settling

pub mod Steps
pub mod Grows
pub mod Parts
pub mod Verdicts
pub mod NullLemmas
pub mod Counted

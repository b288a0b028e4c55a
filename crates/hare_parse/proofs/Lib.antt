pub mod ClosedRun
pub mod MadeTrees
pub mod Kids

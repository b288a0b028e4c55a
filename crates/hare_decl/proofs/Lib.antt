pub mod RunOutcomes
pub mod OneAnswer
pub mod SourceTrees

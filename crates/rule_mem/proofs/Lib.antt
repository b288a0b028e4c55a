pub mod BoolLemmas
pub mod SpellingLemmas
pub mod ExtentLemmas
pub mod ReachLemmas
pub mod FillLemmas
pub mod ListLemmas
pub mod DeleteLemmas
pub mod IdsLemmas
pub mod TupleLemmas
pub mod ArrayLemmas
pub mod StructLemmas
pub mod PathLemmas
pub mod UnmetLemmas
pub mod TypeLemmas
pub mod OwnLemmas
pub mod HintedLemmas
pub mod ItemLemmas
mod MemoryRows

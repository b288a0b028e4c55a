pub mod BelowLemmas
pub mod DefinableLemmas

pub mod RowLemmas
pub mod SlicedLemmas
pub mod ByteLemmas

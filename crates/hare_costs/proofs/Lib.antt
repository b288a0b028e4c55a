pub mod SizeLemmas
pub mod CostLemmas
pub mod LeavingLemmas

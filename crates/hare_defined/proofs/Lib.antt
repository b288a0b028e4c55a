pub mod BaseLemmas
pub mod PartLemmas
pub mod SearchLemmas
pub mod StayLemmas

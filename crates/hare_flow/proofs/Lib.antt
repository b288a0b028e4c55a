pub mod YieldLemmas
pub mod WriteLemmas
pub mod SeenLemmas

pub mod Samples
pub mod SaidRows
pub mod DependenceRows
pub mod ListLemmas
pub mod EdgeLemmas
pub mod LeadLemmas
pub mod FindLemmas
pub mod OrderLemmas
mod OrderRows
pub mod DependLemmas
pub mod WayLemmas
pub mod SearchLemmas

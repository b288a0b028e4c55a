pub mod Memory
mod MemoryRows
pub mod NumberLemmas
mod NumberRows
mod RuntimeRows

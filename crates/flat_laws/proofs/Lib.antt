pub mod Induction
pub mod NameLemmas
pub mod CountLemmas
pub mod HeapLemmas
pub mod StackLemmas
pub mod RowStates
mod CallRows
mod MapRows
mod NameRows
pub mod GlobalLemmas
pub mod StartLemmas
mod StartRows

pub mod FieldLemmas
pub mod UnionLemmas

pub mod UndefinedLemmas
pub mod FieldLemmas
pub mod AliasLemmas

pub mod CountLemmas
pub mod FileLemmas
mod JudgeLemmas
pub mod NameLemmas

pub mod BelowLemmas
pub mod ToldLemmas
pub mod ProgramLemmas

pub mod AskLemmas
pub mod JumpLemmas
pub mod CallLemmas
pub mod TryLemmas
pub mod TypeLemmas
pub mod BindingLemmas
pub mod DeclarationLemmas

pub mod BreakLemmas
pub mod TogetherLemmas
pub mod ValueLemmas
pub mod AskedLemmas
pub mod TypeLemmas
pub mod JoinedLemmas
pub mod UnmetLemmas
pub mod CaseLemmas

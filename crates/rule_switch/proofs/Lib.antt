pub mod CaseLemmas
pub mod OddLemmas
pub mod LabelLemmas
pub mod RepeatLemmas
pub mod CoverLemmas
pub mod TextLemmas

pub mod PatternLemmas
pub mod ListedLemmas
pub mod DistinctLemmas
pub mod FittingLemmas
pub mod CoverLemmas
pub mod UnmetLemmas

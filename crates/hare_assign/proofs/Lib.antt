pub mod ChoiceLemmas
pub mod ChosenLemmas
mod ChosenRows
pub mod FirstLemmas
pub mod GrowthLemmas
pub mod MemberLemmas
pub mod NamesLemmas
pub mod SameLemmas
pub mod TypeLemmas

pub mod LinkLemmas
pub mod ListLemmas
pub mod NumberingLemmas
mod PartLemmas
pub mod TreeLemmas
pub mod SameLemmas
pub mod InternLemmas
pub mod DefinitionLemmas
pub mod FiniteLemmas
pub mod SoundLemmas
pub mod CallerLemmas
pub mod AssignRows
mod IdRows
mod LayoutRows
pub mod GrowthLemmas
pub mod FollowLemmas
mod ToldLemmas
pub mod WaitLemmas
pub mod KeptLemmas
pub mod BaseLemmas
pub mod EnterLemmas
pub mod NeedLemmas
pub mod FoundLemmas
pub mod SettledLemmas
pub mod ChainLemmas
pub mod MeaningLemmas
pub mod IdLemmas
pub mod AscendingLemmas
pub mod LaterLemmas
pub mod MeaningsLemmas
mod FieldLemmas
mod MarkLemmas
pub mod RootLemmas
mod ReadLemmas

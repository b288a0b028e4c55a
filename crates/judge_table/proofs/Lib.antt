pub mod ShapedLemmas
pub mod MarkLemmas
pub mod ReadyLemmas

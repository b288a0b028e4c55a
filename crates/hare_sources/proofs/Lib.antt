pub mod ReadLemmas
pub mod CountLemmas
pub mod OnceLemmas

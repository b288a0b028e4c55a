mod ListLemmas
mod BodyLemmas
mod ReadyLemmas

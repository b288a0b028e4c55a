pub mod ListLemmas
mod HeadLemmas
mod FileLemmas
mod NameLemmas
mod CountLemmas
mod FiledLemmas

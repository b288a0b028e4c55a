mod ShapeLemmas
mod ListLemmas
mod TypeLemmas

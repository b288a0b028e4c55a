mod HeadLemmas
mod TakenLemmas

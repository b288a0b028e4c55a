pub mod OneByOne
pub mod PutTogether
pub mod FinishedTrees

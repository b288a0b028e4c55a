-- A verdict is what is found of its node; of how many kids that speaks, and that the types to which they go are defined.
pub mod Judged
pub mod Settled
pub mod Answers

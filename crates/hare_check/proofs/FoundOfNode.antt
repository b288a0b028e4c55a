-- What is found of the node at hand, by its judge or by others.
pub mod Answers
pub mod Finding
pub mod Judging

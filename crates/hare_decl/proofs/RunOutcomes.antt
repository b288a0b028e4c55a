-- Where the run over the tokens of a file stops, it tells whether they have a tree or a first fault, or are cut off.
pub mod Runs
pub mod Stuck
pub mod Over
pub mod Behind

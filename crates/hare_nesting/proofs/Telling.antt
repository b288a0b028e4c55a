-- What a run gains over the tokens that it uses, where it halts, and what the tokens that close its trees can add.
pub mod Calm
pub mod Claims
pub mod Halts
pub mod Reaches
pub mod Gaining
pub mod Likewise
pub mod Closings
pub mod Runs

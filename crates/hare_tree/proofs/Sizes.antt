-- How large trees are: nodes and texts beside the tokens, and a kid beside the list that it stands in.
pub mod Kids
pub mod Weights
pub mod Counts
pub mod Texts

-- Code that runs through to what stands behind it, and the temporaries that scopes, pieces and statements use.
pub mod Runs
pub mod Scopes
pub mod Pieces
pub mod Sites

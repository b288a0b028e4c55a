-- Two trees with the same tokens are one, and their tokens give all places.
pub mod OneTree
pub mod Places

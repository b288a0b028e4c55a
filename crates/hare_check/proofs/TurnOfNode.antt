-- What the turn of a node gives: its tree, its constant, and what is known and has been seen when it is closed.
pub mod Meanings
pub mod Behind
pub mod Given
pub mod Constants
pub mod Closed

-- When the turn of a node has come, its judge may be asked: what was found of the kids, and which were asked for a type.
pub mod Kids
pub mod Hints
pub mod Values
pub mod AtTurn

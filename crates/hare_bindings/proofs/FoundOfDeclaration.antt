-- What is found over the kids of a node is found of the declaration, and where a value is not constant, in each later store.
pub mod Inconstant
pub mod OverKids

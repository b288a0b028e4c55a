-- What is found of nodes that settle nothing: those of kinds without rows, the lengths of arrays and written types.
pub mod AsFound
pub mod WithoutRows
pub mod ArrayLengths
pub mod WrittenTypes

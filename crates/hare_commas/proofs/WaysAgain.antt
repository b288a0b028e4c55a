-- The ways of a tree again, part by part, where the commas that are added stand in the tree.
pub mod Kin
pub mod Kids
pub mod Parts
pub mod Pieces
pub mod ListForms
pub mod Comments
pub mod Trees

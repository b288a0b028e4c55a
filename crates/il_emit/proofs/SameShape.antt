-- The functions of the module jump back, call and cost the stack no more than those of the program.
pub mod Phis
pub mod CallCosts
pub mod CallCounts
pub mod BackwardJumps
pub mod Shapes

-- A tree fits where it is shaped and low, and keeps the limits, which are read off its kids and the pieces of its form.
pub mod Limits
pub mod LowTrees
pub mod Fitting

-- The code of an expression leads to its value, and that of a condition tells whether it holds.
pub mod Values
pub mod Conditions

-- Sums over the first declarations, the faults of limits one behind another, and that a program within all limits has none.
pub mod Sums
pub mod Passed
pub mod Within

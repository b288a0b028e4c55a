-- The lowered program has a Loop for each `for`, one function, and a global for each string, and its run costs little of the stack.
pub mod Loops
pub mod Fits
pub mod Shaped
pub mod Costs
pub mod Sizes

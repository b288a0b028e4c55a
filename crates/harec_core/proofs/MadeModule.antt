-- The module that is made of a file does what its program does, and nothing else, has its outline, and reads nothing.
pub mod Shaped
pub mod Forward
pub mod Backward
pub mod ReadsNothing
pub mod Compiled

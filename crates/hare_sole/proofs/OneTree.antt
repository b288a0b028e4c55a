-- Over two settings of one store that say the same of what a declaration names there is one tree of it.
pub mod Borrowed
pub mod Parts
pub mod Bindings
pub mod Functions
pub mod Declarations

-- What the phases from declarations to bodies come to, and that declarations are finished one behind another.
pub mod ToBodies
pub mod Finished

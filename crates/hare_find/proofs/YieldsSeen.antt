-- What judges are told of what was yielded, what a `yield` means, and that the types of what has been seen are defined.
pub mod Told
pub mod Meant
pub mod DefinedTypes

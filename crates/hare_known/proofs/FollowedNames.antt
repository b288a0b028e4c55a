-- What is found of a type by following names: that it has a size or none, and that no name it holds by value is undefined.
pub mod Follow
pub mod Words
pub mod Extents

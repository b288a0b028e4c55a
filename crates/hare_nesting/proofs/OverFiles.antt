-- The tokens of a file by their numbers: fronts, trees that go on with one, and sorts and files as they are read.
pub mod Unused
pub mod Fronts
pub mod Lines
pub mod Numbers
pub mod Languages
pub mod TreesRead
pub mod FilesRead
pub mod GoesOn

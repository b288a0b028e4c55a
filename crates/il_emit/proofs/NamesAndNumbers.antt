-- Names that are made of numbers differ where these do; which numbers the lines of code have; and functions by their names.
pub mod NumberedNames
pub mod Numbering
pub mod NamedFunctions
pub mod Sources

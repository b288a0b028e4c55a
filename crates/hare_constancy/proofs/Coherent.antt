-- Objects with one number have the same cells.
pub mod Lists
pub mod Strings
pub mod Values

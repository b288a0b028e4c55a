-- Digits as std reads them, parts of lists by their places, and paths of files.
pub mod Digits
pub mod Lists
pub mod Paths

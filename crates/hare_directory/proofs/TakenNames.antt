-- The names that are taken are in the program, and tell of the names of modules and of those that files import.
pub mod First
pub mod Items
pub mod Imports
pub mod Placed

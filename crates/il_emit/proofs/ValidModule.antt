-- A well formed program, whose names are few, becomes a valid module: its lines, functions and globals keep the rules.
pub mod Operations
pub mod Rightful
pub mod Functions
pub mod Globals
pub mod Smalls
pub mod Lawful

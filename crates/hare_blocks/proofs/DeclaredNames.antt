-- A scope's map tells the newest declaration of each name, and the tests of names tell whether the names hold.
pub mod Scoped
pub mod Told

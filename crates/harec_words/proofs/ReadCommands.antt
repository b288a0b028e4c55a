-- The commands that are read are those of the table, and what the code finds is what the table has.
pub mod Commands
pub mod Meant

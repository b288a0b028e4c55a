-- The turn of a declaration, by its tree and by what it says, and the table of which declarations have been judged.
pub mod Judged
pub mod Turn

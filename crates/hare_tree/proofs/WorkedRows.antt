-- The definitions of tokens, spellings, shapes and limits give what the language says of single rows.
pub mod Rows
pub mod RowsOfTrees

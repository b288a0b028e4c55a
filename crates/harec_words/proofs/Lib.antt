pub mod PartsOfWords
pub mod ReadCommands
pub mod WorkedRows

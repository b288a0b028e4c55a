-- A text of blanks, comments and tokens is read as these; a layout has the tokens of its source, with the commas that are added.
pub mod Reading
pub mod TextTokens
pub mod ReadSources

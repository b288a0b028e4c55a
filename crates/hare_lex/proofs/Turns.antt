-- Turn by turn the lexer passes a gap and reads a token, up to the end of the file or to its first break.
pub mod Gaps
pub mod GapParts
pub mod Progress
pub mod Turn
pub mod Steps

-- One step of the writer, bytes without the blanks at their end, and the comments in front of each token.
pub mod Written
pub mod Trimmed
pub mod Ahead
pub mod CommentCounts

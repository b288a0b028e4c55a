-- Rows of the layout, by computing, and the short words in which they are written.
pub mod RowWords
pub mod LineRows
pub mod BreakRows
pub mod LayoutRows

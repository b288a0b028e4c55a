-- The marks under way: the last kid taken out, and heights above 256, which change nothing.
pub mod KidMarks
pub mod Capping

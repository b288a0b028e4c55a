-- One step: how many tokens it takes, what it opens, and that heights above 256 change nothing of it.
pub mod Opened
pub mod Widths
pub mod SteppedMarks

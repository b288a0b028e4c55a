pub mod KeptBlocks
pub mod SameRuns
pub mod TightBlocks
pub mod StillValid

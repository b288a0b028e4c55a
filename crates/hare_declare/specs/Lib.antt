pub mod Outlines
pub mod Lacking
pub mod Entered

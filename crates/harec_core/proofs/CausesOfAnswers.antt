-- Answers come exactly where their causes hold, for runs, for texts of files, and for layouts.
pub mod Causes
pub mod Layouts
pub mod Executing
pub mod Answering

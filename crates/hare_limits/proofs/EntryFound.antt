-- What an entry is found by: kids of trees, the first element for which something holds, and the files of the first module.
pub mod Kids
pub mod First
pub mod Home

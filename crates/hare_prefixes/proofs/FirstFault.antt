-- The first syntax fault, of a sort and of a file.
pub mod Faults
pub mod FileFaults

-- The ways of a file again with its commas; blanks are left out only beside marks, and commas are added only in front of them.
pub mod Marks
pub mod Files

-- What the tokens of each kind begin with, and what it is to stand at the front of a text.
pub mod Lists
pub mod Firsts
pub mod Standing
pub mod Longest
pub mod ShortMarks

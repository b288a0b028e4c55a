-- Each node of a well-typed tree meets its rows in a context whose kids are its kids.
pub mod Hands
pub mod Numbers
pub mod Late
pub mod Whole

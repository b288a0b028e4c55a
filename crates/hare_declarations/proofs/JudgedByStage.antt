-- What has been judged of each declaration, from one stage to the next, in lists of which one element is written.
pub mod Lists
pub mod Slots

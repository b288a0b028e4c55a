-- What is said of a value by what is ready is said by all that is known, and with what is said of the declaration it is said of both.
pub mod Agreement
pub mod Answers

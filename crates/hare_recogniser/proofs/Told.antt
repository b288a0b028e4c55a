-- Which token is told: the least, and one that was seen.
pub mod Least
pub mod NumbersWithin

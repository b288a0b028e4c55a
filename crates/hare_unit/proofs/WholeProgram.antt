-- What the phases of a program come to together, what makes it complete, and what its paths mean.
pub mod Names
pub mod Complete
pub mod Together
pub mod Bound

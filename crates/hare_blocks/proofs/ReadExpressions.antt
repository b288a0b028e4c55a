-- What the readers of expressions, terms, factors and conditions find, and how many parentheses are open at once.
pub mod Expressions
pub mod Products
pub mod Factored
pub mod Nested
pub mod Conditions

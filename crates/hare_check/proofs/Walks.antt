-- How a walk begins, over a body or a value, goes to kids and back, and that what it relies on stays as the store grows.
pub mod Growing
pub mod Bindings
pub mod Steps
pub mod Values

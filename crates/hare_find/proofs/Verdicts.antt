-- What a verdict lists for kids, one by one, and what that comes to as what is found of their node.
pub mod Written
pub mod Next
pub mod Found

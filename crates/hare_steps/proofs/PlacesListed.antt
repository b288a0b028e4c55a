-- Where declarations stand, that those of an order are there, and numbers that are put into a set where they pass a test.
pub mod Places
pub mod Order
pub mod Early

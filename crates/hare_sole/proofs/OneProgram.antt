-- Over one store a program whose declarations have an order has one list of typed trees, and its phases have one first fault at most.
pub mod Found
pub mod Said
pub mod Order
pub mod Phases

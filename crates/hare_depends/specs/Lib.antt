pub mod Sorts
pub mod Said
pub mod Dependence
pub mod Circles
pub mod Order
pub mod Edges
pub mod Search

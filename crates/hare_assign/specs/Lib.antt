pub mod Chosen
pub mod First
pub mod Growth
pub mod Shapes
pub mod Ways

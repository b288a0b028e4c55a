pub mod Trees
pub mod Program
pub mod Nodes
pub mod Roles
pub mod Judged
pub mod Turns

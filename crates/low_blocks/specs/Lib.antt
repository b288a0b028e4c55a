pub mod Expressions
pub mod Statements
pub mod Programs
pub mod Drafts
pub mod Agreement
pub mod Shape

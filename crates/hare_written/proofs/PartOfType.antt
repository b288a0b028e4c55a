-- What is known of a part of a written type, what its turn comes to, and what is found of it by its kind.
pub mod Kinds
pub mod Known
pub mod Turn
pub mod Found

-- What is found of a program by numbers is what its definitions say of it, of equal names and of names between braces too.
pub mod Claims
pub mod Members
pub mod Look

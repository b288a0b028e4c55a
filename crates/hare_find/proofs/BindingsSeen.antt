-- What is known of bindings and told of them, what loops bind, and that a path to a binding that is not known is refused.
pub mod Known
pub mod Unknown
pub mod Loops

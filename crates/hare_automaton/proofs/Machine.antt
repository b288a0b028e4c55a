-- One step of the machine as equations, the classes of tokens, and which tokens end an expression.
pub mod Steps
pub mod Tokens
pub mod Still
pub mod Edges
pub mod Labelled

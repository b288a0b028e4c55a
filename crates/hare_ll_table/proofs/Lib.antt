pub mod SeenTokens
pub mod StackTop

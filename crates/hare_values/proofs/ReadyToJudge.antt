-- The value of a def or a global is an expression, and can be judged by declarations that are ready and stay so as the store grows.
pub mod Shape
pub mod Ready
pub mod CanJudge

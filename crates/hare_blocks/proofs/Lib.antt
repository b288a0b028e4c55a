pub mod Turns
pub mod Parts
mod Declared
mod EvaluationRows
pub mod FirstTokens
pub mod ReadExpressions
pub mod ReadStatements
pub mod DeclaredNames

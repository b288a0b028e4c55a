pub mod Classes
pub mod Rows
pub mod TypeRows
pub mod ExpressionRows
pub mod DeclarationRows
pub mod Table
pub mod Engine
pub mod OneTree

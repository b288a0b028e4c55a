-- What a run reads is what the stack means: tokens by their classes, trees under way, pieces and forms, and runs that end.
pub mod TokenKinds
pub mod Seen
pub mod Trees
pub mod Means
pub mod Stacks
pub mod Kids
pub mod Pieces
pub mod Forms
pub mod Paths
pub mod Sound
pub mod Readings

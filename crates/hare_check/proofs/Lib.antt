pub mod Labels
pub mod Kept
pub mod Walks
pub mod NodeAtHand
pub mod FoundOfNode
pub mod TurnOfNode

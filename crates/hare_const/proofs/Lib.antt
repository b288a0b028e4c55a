pub mod CoverLemmas
pub mod NumberLemmas
pub mod OperatorLemmas
pub mod UnionLemmas
pub mod NodeLemmas
pub mod AddressLemmas
pub mod ArrayLemmas
pub mod PlacingLemmas
pub mod PlacedLemmas
pub mod PartLemmas
pub mod SizeLemmas
pub mod LaterTypes
pub mod LaterNodes
pub mod JoinedLemmas
pub mod LaterUnions
pub mod LaterCoercions
pub mod Tagged
pub mod CoercionLemmas
pub mod PayloadLemmas
pub mod ToldLemmas
pub mod LaterTrees
pub mod SettledLemmas
pub mod FoldedLemmas
pub mod StaticLemmas
pub mod TextLemmas
pub mod WordLemmas
pub mod RefusedLemmas
pub mod ReachedLemmas
pub mod WalkLemmas
pub mod MadeLemmas
mod ExampleConstants
mod ConstantRows
pub mod Shown
mod ExampleValues
mod ValueRows
mod UnionRows

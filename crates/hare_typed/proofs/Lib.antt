pub mod Samples
mod ScalarRows
mod ObjectRows
mod ArithmeticRows
mod PointerRows
mod UnionRows
pub mod RepeatLemmas
pub mod OriginLemmas
pub mod StretchLemmas
pub mod LeadLemmas
pub mod KidLemmas
pub mod CoatLemmas
pub mod GivenLemmas
pub mod ExitLemmas
pub mod CopyLemmas
pub mod ParameterLemmas
pub mod OrderLemmas
pub mod LaterWeights
pub mod LocalCosts
mod ExampleTrees
mod OrderRows
mod CopyRows
mod WeightRows
mod FrameRows
mod ConstancyRows
mod CoverRows
mod FormRows
mod ActRows
pub mod ScalarLemmas
pub mod AlikeLemmas
mod FollowedRows
pub mod Quiet
pub mod Steady
mod NodeRows

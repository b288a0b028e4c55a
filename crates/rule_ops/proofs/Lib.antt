pub mod OperandLemmas
pub mod SignLemmas
pub mod TargetLemmas
pub mod TypeLemmas

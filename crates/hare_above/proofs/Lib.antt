pub mod FrameLemmas
pub mod BareLemmas
pub mod JumpLemmas
pub mod ParamLemmas
pub mod ReadyLemmas
pub mod OverLemmas

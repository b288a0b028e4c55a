pub mod Soundness
pub mod RightRows
pub mod Completion
pub mod Outcomes
pub mod Joining
pub mod FirstFault

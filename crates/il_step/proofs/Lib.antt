pub mod Calls
mod EndRows
pub mod EndedRuns
pub mod FreshPages
mod WantRows
mod FaultingRows
mod AnswerRows
pub mod Outsides
pub mod Coming
pub mod EngineSteps
pub mod Requests
pub mod Sound
pub mod Replying
pub mod Going
pub mod Answering
pub mod Machines
pub mod Mains
pub mod Starting

mod LaterStores
mod MoreKnown
mod OneStep
mod AllSteps

pub mod Exact
mod Store
mod Trees
mod OperatorRows
mod MemoryRows
mod ControlRows
mod TypeRows
mod LackingRows

mod ActRows
pub mod Answering
pub mod BlockLists
pub mod Calling
pub mod HeapLies
pub mod Parts
pub mod Passing
pub mod Reading
pub mod Streaming
pub mod Touched
pub mod Uses

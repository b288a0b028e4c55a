pub mod Calls
mod KeptRows
pub mod PageGrowth
pub mod PageLists
pub mod PageMoves
pub mod PageWrites
pub mod Pieces
pub mod RangeLists
pub mod StackCuts
pub mod StackLists
pub mod TouchedLemmas
pub mod WindowLemmas
pub mod WindowPlaces

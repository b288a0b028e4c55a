pub mod UnderWay
pub mod CheckedRows
pub mod Steps
pub mod Telling
pub mod ByTheLetter
pub mod OverFiles
pub mod LeastFault

pub mod Frames
pub mod Stands
pub mod Ready
pub mod Asked

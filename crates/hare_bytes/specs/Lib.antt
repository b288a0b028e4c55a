pub mod Bytes
pub mod Sliced

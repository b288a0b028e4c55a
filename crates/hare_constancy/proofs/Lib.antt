pub mod Judged
pub mod Types
pub mod Parts
pub mod Operators
pub mod Joined
pub mod Places
pub mod Trees
pub mod Well
pub mod Texts
pub mod Coherent
pub mod Ready
pub mod Agreement
mod Covers

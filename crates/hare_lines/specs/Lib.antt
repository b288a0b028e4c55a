pub mod Read
pub mod Gaps
pub mod Layout
pub mod Behind
pub mod Write

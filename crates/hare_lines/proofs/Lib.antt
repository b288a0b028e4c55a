pub mod Steps
pub mod LayoutLaws
pub mod Rows

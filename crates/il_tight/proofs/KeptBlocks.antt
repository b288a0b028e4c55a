-- The labels that stay, the blocks that are kept, and what stands behind these.
pub mod Lists
pub mod Staying
pub mod Kept
pub mod Behind

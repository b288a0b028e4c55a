-- A source has one layout, which keeps its pieces; gaps are read back, and a blank is kept for tokens only where it is needed.
pub mod Once
pub mod Kept
pub mod Again
pub mod Grown

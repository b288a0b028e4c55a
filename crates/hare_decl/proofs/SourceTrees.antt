-- Trees of low height keep both limits on depth, and the tree of a source has few nodes and texts for its bytes.
pub mod Low
pub mod Sources

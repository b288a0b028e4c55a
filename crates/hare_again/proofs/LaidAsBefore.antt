-- Pieces that are read of a layout, with the comments among them, are laid out as before.
pub mod Alike
pub mod PiecesAgain
pub mod Counts
pub mod Comments
pub mod Sources
pub mod Files

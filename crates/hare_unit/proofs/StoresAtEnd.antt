-- Stores with which the checking may end, and the list of tags, which does not look at the list as it was.
pub mod Stores
pub mod Tags

-- The tokens of a file stand in their order, are few, and none has a text longer than its spelling.
pub mod Shorter
pub mod Ordered

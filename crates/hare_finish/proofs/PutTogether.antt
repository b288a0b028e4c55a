-- What a finished tree is put together from: plain nodes, and written types without numbers.
pub mod PlainNodes
pub mod Copies
pub mod WrittenTypes

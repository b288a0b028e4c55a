-- What comes of a run: how it ended or why it did not, what it may have read and written, and what no input changes.
pub mod Sent
pub mod Unread
pub mod Running
pub mod Leaves

-- What is seen behind a node's turn, and what is settled late, one by one.
pub mod LateSettled
pub mod Closed

-- What has been judged by steps one behind another, what is known by it, and that the checking may end over it.
pub mod InOrder
pub mod Told
pub mod Over

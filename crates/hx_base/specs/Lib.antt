pub mod Memory
pub mod Numbers
pub mod Operations
pub mod Runtime

-- Whatever stands on the stack can be closed by some tokens, so what was read goes on to a whole tree.
pub mod Endings
pub mod Closing
pub mod GoodSorts
pub mod Good
pub mod Viable

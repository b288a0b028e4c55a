-- What stays in later stores, of types, sizes and what has been judged, and what is seen of a store with which the checking ends.
pub mod Lists
pub mod Stores
pub mod Sizes
pub mod Judged
pub mod Ends

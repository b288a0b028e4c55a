-- Lists of which elements are read one by one, and how many nodes stand in the trees that are left.
pub mod Lists
pub mod Counts

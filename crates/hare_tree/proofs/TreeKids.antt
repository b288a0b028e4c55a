-- What stands behind each kid of a tree, and that the kids of a shaped tree are shaped.
pub mod KidsFrom
pub mod Behind
pub mod ShapedKids
pub mod KidSorts

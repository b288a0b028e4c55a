-- The evaluation of a constant comes to the value of its tree.
pub mod Acts
pub mod Forms
pub mod Texts
pub mod Made
pub mod Trees
pub mod MadeTrees

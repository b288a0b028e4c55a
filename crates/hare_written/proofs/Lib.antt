pub mod Fitting
pub mod PartOfType
pub mod JudgedWhole

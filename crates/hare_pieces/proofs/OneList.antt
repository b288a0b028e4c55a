-- A text has one list of pieces.
pub mod Fronts
pub mod Once

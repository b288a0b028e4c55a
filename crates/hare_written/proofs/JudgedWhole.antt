-- One kid more is judged, then a part whose kids have been; and what is said of a whole written type.
pub mod Kids
pub mod Parts
pub mod Answers

pub mod RowPrograms
mod EvaluationRows
mod MemoryRows
mod WellFormedRows
pub mod Kids
pub mod Heights
pub mod Named
pub mod Passes
pub mod Rights
pub mod NumberNames
pub mod GlobalPlaces

pub mod Files
pub mod Lines
pub mod Stops
-- what the clauses of `check` cite, for the crates above
pub use Rattle.hare_unit.specs.Programs
pub use Rattle.hare_unit.specs.Whole

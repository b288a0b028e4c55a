-- The lowered program is well formed: its statements and its globals keep the rules, and stand not too deep within one another.
pub mod Plain
pub mod Nests
pub mod Rights
pub mod RightStatements
pub mod Globals
pub mod Sources
pub mod WellFormed

-- Lowered statements, and the whole lowered program, end as the program does, with the same output.
pub mod Meets
pub mod Branches
pub mod Texts
pub mod Same
pub mod Start
pub mod Whole

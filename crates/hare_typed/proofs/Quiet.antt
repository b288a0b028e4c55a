-- The evaluation of constants leaves all as it was but for ticks and new objects, and turns do not count. `Forms` shows it of the acts of
-- each constant kind, one step behind another; `Runs` of what such acts come to, and so of trees.
pub mod Forms
pub mod Runs

mod Rows
pub mod EndsOfRuns
pub mod CausesOfAnswers
pub mod MadeModule

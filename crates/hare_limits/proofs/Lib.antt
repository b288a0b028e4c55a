pub mod EntryFound
pub mod LimitsPassed

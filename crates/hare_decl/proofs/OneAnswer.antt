-- Tokens, or the bytes of a source, have one tree or one first fault.
pub mod OneOutcome
pub mod Places
pub mod Least
pub mod Once

-- A module with tight functions does, step by step, what the module does on the light machine.
pub mod Light
pub mod Twins
pub mod Wholes
pub mod Runs

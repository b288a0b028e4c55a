-- The lines of each form of code but loops do on the light machine what the form does in flat code.
pub mod Running
pub mod Meeting
pub mod Operands
pub mod Outcomes
pub mod Forms

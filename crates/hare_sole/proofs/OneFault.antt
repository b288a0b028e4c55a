-- Over one store a step is passed or has one fault; declarations, bodies and limits have at most one first fault.
pub mod Steps
pub mod Course
pub mod Bodies
pub mod Limits

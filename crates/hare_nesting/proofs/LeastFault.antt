-- The least token at which a limit is passed is told, and each that is told is at fault; the laws of the gauge.
pub mod Firsts
pub mod Told
pub mod Least
pub mod Shallow
pub mod Gauges

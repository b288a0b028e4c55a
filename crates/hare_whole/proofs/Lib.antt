pub mod StepRows
pub mod TagRows
pub mod LimitRows

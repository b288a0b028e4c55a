-- Each step adds to the limits that are passed what the gauge finds then: by the check of rows, and else rule by rule.
pub mod Stands
pub mod Tame
pub mod Ready
pub mod Follow
pub mod Stepped
pub mod HandedSteps
pub mod ClimbSteps
pub mod CommaSteps
pub mod PathSteps
pub mod LateSteps
pub mod StepGains

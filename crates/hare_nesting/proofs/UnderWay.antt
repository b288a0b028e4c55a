-- Trees under way, as the changes of the machine leave them: where they begin, and which limits are passed in them.
pub mod Lists
pub mod Stacks
pub mod Seen
pub mod SeenSteps
pub mod Grown
pub mod Changes
pub mod Below
pub mod Over
pub mod Idle
pub mod PathEnds
pub mod Found
pub mod Orders
pub mod Operands
pub mod AtStart
pub mod Lifted

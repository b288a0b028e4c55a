-- What is known of the node at hand: what its judge relies on, what a walker looks at itself, and that it stays.
pub mod Ready
pub mod Later
pub mod Types
pub mod Looking
pub mod Same

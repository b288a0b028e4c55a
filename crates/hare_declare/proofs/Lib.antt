pub mod TypesEntered
pub mod TypesSeen

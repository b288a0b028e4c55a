-- What is known of one more declaration, and its written types by their places.
pub mod WrittenTypes
pub mod Declarations

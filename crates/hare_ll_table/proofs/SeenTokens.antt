-- What is seen of the tokens of a list at a place: the class of one, and strings that stand side by side as one token.
pub mod Classified
pub mod Joining
pub mod Places

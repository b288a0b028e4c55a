-- Numbers, strings and runes are read part by part as their definitions say.
pub mod Numbers
pub mod Quotes
pub mod Escapes
pub mod Strings
pub mod Runes

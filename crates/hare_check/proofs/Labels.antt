-- Where yielded values may go: the labels round a kid, the one that a `yield` means, and what changes of it as a walk goes on.
pub mod Places
pub mod Meant
pub mod Spots

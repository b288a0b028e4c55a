pub mod Signatures
pub mod Listed

-- SHA-256: the standard's definition, and the form of the code.
pub mod Private
pub mod Sha256

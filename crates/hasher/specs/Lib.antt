pub mod Hasher
pub mod Statements

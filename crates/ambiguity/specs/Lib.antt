pub mod Ambiguity
pub mod Private
pub mod Statements

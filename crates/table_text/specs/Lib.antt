pub mod Text
pub mod Private
pub mod Statements

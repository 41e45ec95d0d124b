pub mod Searching
pub mod Private
pub mod Statements

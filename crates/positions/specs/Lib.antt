pub mod Positions
pub mod Private
pub mod Statements

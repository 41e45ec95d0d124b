pub mod Sizing
pub mod Statements

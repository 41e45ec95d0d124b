pub mod Evidence
pub mod Statements

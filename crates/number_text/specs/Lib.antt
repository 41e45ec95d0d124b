pub mod Numbers
pub mod Statements

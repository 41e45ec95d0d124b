pub mod Layouts
pub mod Private
pub mod Statements

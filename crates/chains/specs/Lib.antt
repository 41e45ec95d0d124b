pub mod Book
pub mod Private
pub mod Step

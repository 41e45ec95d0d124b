pub mod Slots
pub mod Levels
pub mod Values
pub mod Running
pub mod BookLaws
pub mod BlockLaws
pub mod Apart

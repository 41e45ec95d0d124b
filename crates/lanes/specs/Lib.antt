-- Sixteen compressions side by side.
pub mod Lanes
pub mod Private

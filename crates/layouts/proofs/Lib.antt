pub mod Coverage
pub mod Counts
pub mod AllowedLaws
pub mod Positions

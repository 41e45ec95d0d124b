pub mod Journal
pub mod Seasons
pub mod Run

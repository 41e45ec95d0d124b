pub mod Claim
pub mod OneSeason
pub mod Detection
pub mod Records
pub mod Sizing
pub mod Search
pub mod OtherLayout

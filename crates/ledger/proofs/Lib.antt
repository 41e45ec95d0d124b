pub mod EndLaws
pub mod DayLaws
pub mod Examples
pub mod JoinLaws
pub mod LedgerLaws

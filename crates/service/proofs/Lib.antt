pub mod RecordLaws
pub mod CallLaws
pub mod DayLaws
pub mod BlockLaws
pub mod Statements

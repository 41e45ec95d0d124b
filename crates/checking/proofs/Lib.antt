pub mod DayLaws
pub mod RefusalLaws
pub mod Through
pub mod CallLaws
pub mod Statements

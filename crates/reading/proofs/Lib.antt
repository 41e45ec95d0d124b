pub mod BitLaws
pub mod LastGood
pub mod RefusalLaws
pub mod Report
pub mod Statements
pub mod Passed

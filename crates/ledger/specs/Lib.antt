pub mod Ledger
pub mod Private

pub mod Collisions
pub mod TableLaws
pub mod ValueLaws

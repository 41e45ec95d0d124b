pub mod RunLaws
pub mod SeasonLaws

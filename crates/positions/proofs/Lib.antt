pub mod Spans
pub mod DayLaws
pub mod BookLaws
pub mod CallLaws
pub mod StepLaws
pub mod BothWays

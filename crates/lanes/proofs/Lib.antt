pub mod LaneLaws
pub mod Steps

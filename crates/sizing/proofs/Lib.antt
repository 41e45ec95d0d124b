pub mod LengthLaws
pub mod LinkLaws

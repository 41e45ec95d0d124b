pub mod FieldLaws
pub mod DecimalLaws
pub mod ReadBack

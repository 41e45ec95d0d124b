pub mod InputLaws
pub mod FormLaws
pub mod LineLaws
pub mod TextLaws
pub mod Examples

pub mod Walks
pub mod Writes
pub mod Lists
pub mod Tiles
pub mod Blacks

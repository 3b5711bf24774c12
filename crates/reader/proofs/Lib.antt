pub mod ReadingOf
pub mod Columns
pub mod Decoded
pub mod Stored

pub mod Columns
pub mod Facts
pub mod Whole
pub mod Outcome

pub mod Write
pub mod Putting

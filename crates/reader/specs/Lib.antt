pub mod Reading
pub mod Decoded
pub mod Read

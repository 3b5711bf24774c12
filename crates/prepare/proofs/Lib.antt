pub mod Lines
pub mod Holding
pub mod Summing
pub mod Joining
pub mod Prepares

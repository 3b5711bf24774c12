pub mod Places
pub mod Times
pub mod Leavers
pub mod Bounded
pub mod Along
pub mod Written
pub mod Shown
pub mod Limited

pub mod Filling
pub mod Working

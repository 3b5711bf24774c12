pub mod Format
pub mod Numbers
pub mod Pairs
pub mod Checks
pub mod Accepted
pub mod SheetA
pub mod Held

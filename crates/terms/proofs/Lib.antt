pub mod Checks
pub mod Refusing
pub mod Answers

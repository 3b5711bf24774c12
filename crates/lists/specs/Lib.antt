pub mod Choice
pub mod Run
pub mod Filled

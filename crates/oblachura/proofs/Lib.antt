pub mod Call
pub mod Refused
pub mod Answered
pub mod Runs
pub mod Demands
pub mod CallPromises

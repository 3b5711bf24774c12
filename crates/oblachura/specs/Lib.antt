pub mod AnswerNumbers
pub mod Call
pub mod Calls
pub mod Demands
pub mod CallPromises

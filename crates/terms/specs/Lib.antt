pub mod Refusal
pub mod Verdict
pub mod Answer

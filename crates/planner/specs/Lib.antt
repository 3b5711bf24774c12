pub mod Buffers
pub mod Outcome
pub mod Plan
pub mod ReportChecks
pub mod Settled
pub mod Report
pub mod Workable

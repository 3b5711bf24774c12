pub mod Reportable
pub mod Refusals
pub mod Settles
pub mod Taken
pub mod Replacing
pub mod Outcome

pub mod Calling
pub mod Answered
pub mod Least
pub mod OneMeaning
pub mod Runs
pub mod Sheets
pub mod Useless
pub mod Promises

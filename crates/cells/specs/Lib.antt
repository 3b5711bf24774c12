pub mod Place
pub mod Timing
pub mod Sums
pub mod Book
pub mod Held
pub mod Limits
pub mod Costs
pub mod Shown

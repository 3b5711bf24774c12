pub mod Lengths
pub mod Pairs
pub mod Facts
pub mod Meaning
pub mod Amend
pub mod Sample
pub mod Refusals

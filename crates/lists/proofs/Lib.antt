pub mod Induction
pub mod Choice
pub mod Run
pub mod Fill
pub mod Splice
pub mod Held

pub mod LineOf
pub mod Prepared
pub mod Preparing
pub mod FieldsHeld

pub mod Block
pub mod Failure

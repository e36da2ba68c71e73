pub mod Fault
pub mod Nesting

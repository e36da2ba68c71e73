pub mod Alike
pub mod Compiled
pub mod Fault
pub mod Squeeze

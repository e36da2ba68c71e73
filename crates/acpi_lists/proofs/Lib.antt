pub mod Initiators
pub mod Windows

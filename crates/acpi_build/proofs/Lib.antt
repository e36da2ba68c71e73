pub mod Levels
pub mod EisaIds
pub mod Fields

pub mod Buffers
pub mod Builders
pub mod Digits
pub mod Fields
pub mod Meanings
pub mod Uuids
pub mod Families
pub mod NameTexts

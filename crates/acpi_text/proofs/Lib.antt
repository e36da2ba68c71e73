pub mod Numbers
pub mod Digits
pub mod Offsets
pub mod Printed
pub mod Trims
pub mod Meanings
pub mod Reading
pub mod Lines
pub mod Spaces
pub mod Slots
pub mod Shown
pub mod Parts
pub mod Pieces
pub mod Composed
pub mod Tables
mod Names
mod Stands
mod Comments

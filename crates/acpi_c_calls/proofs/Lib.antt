mod Spaces
mod Found
mod Noted
mod BlockTexts
mod Located
mod Seals
mod Joins
mod Helds
mod Closings
mod Layings
mod Amongs
mod Paths
mod Operators
mod Pieces
mod Placed
mod Pointers
mod Nested
pub mod Numbers

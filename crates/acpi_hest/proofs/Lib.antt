pub mod Controllers
pub mod Boxes
pub mod Counters

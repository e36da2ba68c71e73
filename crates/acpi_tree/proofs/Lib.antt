pub mod Visits
pub mod Whole

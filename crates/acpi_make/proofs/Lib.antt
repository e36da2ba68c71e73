pub mod Labels
pub mod Outcomes
pub mod Digits
pub mod Reading
pub mod Leads
pub mod Lines
pub mod Tables
pub mod Entries
pub mod Numbers
pub mod Fields
pub mod Making
pub mod Truth
mod Values
pub mod Compared
pub mod Order
pub mod Listed
pub mod Runs

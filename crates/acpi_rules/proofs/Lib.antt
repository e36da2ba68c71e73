mod Found
pub mod Structures
mod Entries
mod Shown
mod Differences
mod Chains

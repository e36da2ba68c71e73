pub mod EntryLists
pub mod IsaStrings
pub mod Rimts
pub mod Told
pub mod References

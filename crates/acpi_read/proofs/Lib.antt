mod After
pub mod Fronts
pub mod Numbers
pub mod EntryLists
pub mod Strings
pub mod Within
pub mod TermLists
pub mod Closings
pub mod InParts
pub mod Refusals
pub mod Texts
pub mod Dotted
pub mod Lines
pub mod Sizes
pub mod Widths
pub mod Cuts
pub mod Blocks

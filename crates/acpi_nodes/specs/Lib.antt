pub mod Entries
pub mod Hart
pub mod Pci
pub mod Pptt
pub mod Resources
pub mod Rhct
pub mod Rimt
pub mod Viot

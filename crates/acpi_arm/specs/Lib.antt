pub mod Dbg2
pub mod Gtdt
pub mod Iort
pub mod IortLaws
pub mod IortNodes
pub mod IortSmmus
pub mod Lists
pub mod Offsets

pub mod Hmat
pub mod Locality
pub mod Cache
pub mod Slit

pub mod Graph
pub mod Spaces
pub mod Named
pub mod Tree
pub mod Dot
pub mod Image
pub mod Laws

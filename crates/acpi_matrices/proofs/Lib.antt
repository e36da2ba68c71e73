pub mod Fields
pub mod Pieces
pub mod Cells
pub mod Distances
pub mod DistanceCalls
pub mod CellBytes

pub mod Joined
pub mod Moves
pub mod Shapes
pub mod Pointers
pub mod Loads
pub mod Placed

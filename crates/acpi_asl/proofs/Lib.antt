pub mod Rooms
pub mod Pieces
pub mod Walks
pub mod Latest
pub mod Absents
pub mod Externals
pub mod Items
pub mod Namespaces

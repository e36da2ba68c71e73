pub mod State
pub mod Block
pub mod Table
pub mod Error
pub mod EisaId
pub mod Laws

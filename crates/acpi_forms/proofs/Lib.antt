mod Layouts
mod Named
pub mod Signatures
mod Meant

pub mod Headed
pub mod Registers
pub mod Tables
pub mod Built

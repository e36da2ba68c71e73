pub mod Command
pub mod Tables
pub mod Places
pub mod Loader
pub mod Fault
pub mod Firmware
pub mod Laws

pub mod Lines
pub mod Line
pub mod Fault
pub mod Dump
pub mod Written
pub mod Laws

pub mod Devices
pub mod Iorts
pub mod Lists
pub mod Written
pub mod Timers

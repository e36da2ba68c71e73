pub mod Checked
pub mod Found

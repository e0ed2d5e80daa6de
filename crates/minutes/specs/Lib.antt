pub mod Minutes
pub mod Differences
pub mod Turns

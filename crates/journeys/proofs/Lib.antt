pub mod Leasts
pub mod Gathering
pub mod Scanning
pub mod Recursion
pub mod Sweeping
pub mod Putting
pub mod Legs
pub mod Lawful

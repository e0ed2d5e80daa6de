pub mod Examples
pub mod Searches
pub mod Worked

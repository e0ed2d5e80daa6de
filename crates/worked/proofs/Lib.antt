pub mod Examples
pub mod Reference
pub mod Meets
pub mod Searches

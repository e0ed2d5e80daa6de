pub mod Search
pub mod InWords
pub mod Theorems

pub mod Lists
pub mod Falling
pub mod InWords
pub mod Restoring
pub mod Allowing

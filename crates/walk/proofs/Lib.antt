pub mod State
pub mod Children
pub mod Descending
pub mod Turns

pub mod Readings
pub mod Calls
pub mod Room
pub mod Views
pub mod Whole

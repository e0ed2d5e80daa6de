pub mod Naming
pub mod Testing
pub mod Placing
pub mod Events

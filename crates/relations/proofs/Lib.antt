pub mod Tests
pub mod Narrowing
pub mod Assigning
pub mod Joining
pub mod Scheduling
pub mod Tabling

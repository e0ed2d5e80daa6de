pub mod Outcome
pub mod Onward

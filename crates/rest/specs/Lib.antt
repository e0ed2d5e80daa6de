pub mod Rest
pub mod Theory

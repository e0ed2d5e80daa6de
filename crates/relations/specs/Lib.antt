pub mod Meaning
pub mod ExactNarrowing
pub mod Joins
pub mod Conditions
pub mod Tables

pub mod Journeys
pub mod Lengths

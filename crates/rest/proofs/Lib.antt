pub mod Families
pub mod Settling

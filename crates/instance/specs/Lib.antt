pub mod Joined
pub mod Lines

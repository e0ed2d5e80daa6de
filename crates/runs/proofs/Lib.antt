pub mod Calling
pub mod Running
pub mod Finding
pub mod Holding
pub mod Replaying
pub mod Wiping

pub mod Requests
pub mod Law
pub mod Replayed
pub mod Onward

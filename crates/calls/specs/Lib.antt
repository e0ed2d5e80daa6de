pub mod Calls
pub mod Replies
pub mod Standing
pub mod Laws

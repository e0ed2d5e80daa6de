pub mod Settles
pub mod Workspace

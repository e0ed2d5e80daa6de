pub mod Dividing
pub mod Division
pub mod Standing

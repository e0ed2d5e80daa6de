pub mod Undoing
pub mod Holding
pub mod Refusing
pub mod Going
pub mod Shaping

pub mod Sets
pub mod Gaps
pub mod Bits
pub mod Turning
pub mod Widening

pub mod Contents
pub mod Decided

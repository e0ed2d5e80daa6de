pub mod Narrowing
pub mod WayBack
pub mod Spanning
pub mod Writing
pub mod Lawful

pub mod Example
pub mod Free

pub mod Testing
pub mod Tables

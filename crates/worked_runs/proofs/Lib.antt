pub mod Stubborn
pub mod Trying
pub mod Worked

pub mod Waiving

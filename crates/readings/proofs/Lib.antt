pub mod Course
pub mod Firings

pub mod Cycle
pub mod Members
pub mod Course

pub mod Steps
pub mod Ways
pub mod Spines
pub mod Stages

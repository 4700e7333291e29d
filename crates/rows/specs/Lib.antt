pub mod Words
pub mod Refusals
pub mod Kinds
pub mod Writes
pub mod Checks

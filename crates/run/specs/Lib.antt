pub mod Entries
pub mod Keywords
pub mod Lines
pub mod Words

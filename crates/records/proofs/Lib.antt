pub mod Types
pub mod Words
pub mod Zeros
pub mod Contexts
pub mod SortsAndPis

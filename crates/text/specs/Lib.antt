pub mod Feeding
pub mod Numbers

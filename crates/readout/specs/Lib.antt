pub mod Buffers
pub mod Places
pub mod Sums

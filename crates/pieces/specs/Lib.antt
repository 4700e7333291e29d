pub mod Found
pub mod Leaves

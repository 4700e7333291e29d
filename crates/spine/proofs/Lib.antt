pub mod Prefix
pub mod Walking
pub mod Heads
pub mod Arguments
pub mod ForCallers
pub mod Applying

pub mod Constants
pub mod Taking
pub mod ForCallers

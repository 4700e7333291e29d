pub mod Again
pub mod OnCall

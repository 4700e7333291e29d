pub mod OnCall
pub mod LeftAccepted

pub mod Applied
pub mod Ends
pub mod Opening
pub mod Unfolding

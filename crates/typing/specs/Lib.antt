pub mod Here
pub mod Gives
pub mod Written
pub mod Pieces
pub mod Fields

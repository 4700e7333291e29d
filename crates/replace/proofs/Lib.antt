pub mod Comes
pub mod Later
pub mod Indices
pub mod Fields
pub mod RowParts
pub mod Turns
pub mod Pointers
pub mod Results

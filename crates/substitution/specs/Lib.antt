-- What is believed stands in the crate rules. Here it is shown that replacement down the rows is textbook substitution: read
-- replace_none_reads and replace_some_reads at the end of Replacing.antt first, then beta_reads and zeta_reads in Heads.antt.
pub mod Places
pub mod Trees
pub mod TreeLaws
pub mod Stores
pub mod Passing
pub mod Reading
pub mod Bounds
pub mod Replacing
pub mod Existence
pub mod Applied
pub mod Heads
pub mod Fired
pub mod Dues
pub mod Paid
pub mod Scope

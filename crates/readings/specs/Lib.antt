-- What is believed stands in the crate rules. Here each firing reads out as a tree rule: read TreeRules.antt, then the statements in proofs/Firings.antt.
-- AskedAgain.antt says that an accepted call's answer, asked again, is its own answer.
pub mod TreeRules
pub mod Taken
pub mod Rules
pub mod Constants
pub mod Recursors
pub mod Computed
pub mod Firings
pub mod AskedAgain

-- What is believed stands in the crate rules. Here any words are accepted or refused (`acceptance_decides` in Accepting.antt), and so every call has
-- an answer (`demand_one` in proofs/DemandOne.antt): read the latter first.
pub mod Decisions
pub mod WordsOut
pub mod RowsDecided
pub mod DeclsDecided
pub mod Accepting
pub mod DemandOne

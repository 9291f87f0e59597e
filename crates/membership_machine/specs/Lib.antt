-- what a reader must believe
pub mod Records
pub mod Votes
pub mod State
pub mod Steps
pub mod Events
pub mod Starts
pub mod Growth
pub mod Parts
pub mod Sample
-- what only the proofs need
pub mod Invariant

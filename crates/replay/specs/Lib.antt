-- what a reader must believe
pub mod Closings
pub mod Completeness
pub mod Gens
pub mod Histories
pub mod Replays
pub mod Runs
pub mod Statuses
-- what only the proofs need
pub mod Loops
pub mod Tallies

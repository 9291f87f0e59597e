-- what a reader must believe
pub mod Outcomes
pub mod Sessions
pub mod Tasks
-- what only the proofs need
pub mod Readers

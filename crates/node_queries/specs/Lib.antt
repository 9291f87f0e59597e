pub mod Checks
-- what only the proofs need
pub mod Queries

pub mod State
pub mod Acts
pub mod Sequence
pub mod Goals
pub mod Decisions
pub mod Status
-- what only the proofs need
pub mod Steady

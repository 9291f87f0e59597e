-- what a reader must believe
pub mod Laws
-- what only the proofs need
pub mod Askings
pub mod Hands
pub mod Guards
pub mod Steps
pub mod Requested
pub mod Followed
pub mod AnsweringGuards

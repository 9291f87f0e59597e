-- what a reader must believe
pub mod Replies
pub mod Laws
-- what only the proofs need
pub mod Guards
pub mod Steps

-- what a reader must believe
pub mod Laws
pub mod endings
-- what only the proofs need
pub mod Heard
pub mod Judged
pub mod Members
pub mod Steps

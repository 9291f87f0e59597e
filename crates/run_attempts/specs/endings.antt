-- what a reader must believe
pub mod Laws
-- what only the proofs need
pub mod Ways
pub mod Nacks
pub mod Steps
pub mod Once
pub mod Sites

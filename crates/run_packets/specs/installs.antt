-- what a reader must believe
pub mod Laws
-- what only the proofs need
pub mod Passing

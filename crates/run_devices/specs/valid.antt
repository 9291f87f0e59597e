pub mod Laws
-- what only the proofs need
pub mod Engaged

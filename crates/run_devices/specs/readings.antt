pub mod Laws
-- what only the proofs need
pub mod Readings
pub mod Sites

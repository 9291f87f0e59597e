-- what a reader must believe
pub mod Choosing
pub mod History
pub mod Laws
pub mod States
-- what only the proofs need
pub mod Places

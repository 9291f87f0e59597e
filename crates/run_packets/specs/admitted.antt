-- what a reader must believe
pub mod Laws
-- what only the proofs need
pub mod Refusals
pub mod Known
pub mod Guards
pub mod Logged
pub mod Texts
pub mod Begun

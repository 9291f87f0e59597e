-- what a reader must believe
pub mod Laws
-- what only the proofs need
pub mod Asking
pub mod Sendings
pub mod Waiting
pub mod Events

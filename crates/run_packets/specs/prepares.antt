-- what a reader must believe
pub mod Laws
-- what only the proofs need
pub mod Actors
pub mod Proposals
pub mod Events

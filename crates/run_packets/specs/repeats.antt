-- what a reader must believe
pub mod Laws
-- what only the proofs need
pub mod Ages
pub mod Events

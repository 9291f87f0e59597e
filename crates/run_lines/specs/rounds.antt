-- what a reader must believe
pub mod Parts
pub mod Laws
-- what only the proofs need
pub mod Following

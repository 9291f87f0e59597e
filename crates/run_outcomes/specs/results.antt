-- what a reader must believe
pub mod Laws
pub mod Paths
-- what only the proofs need
pub mod Shown
pub mod Tried

-- what a reader must believe
pub mod Laws
-- what only the proofs need
pub mod Ends
pub mod Shorts
pub mod Facts

pub mod Told
pub mod Laws
-- what only the proofs need
pub mod Views
pub mod Kept

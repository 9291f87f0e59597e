-- what a reader must believe
pub mod Settings
pub mod Laws
-- what only the proofs need
pub mod Forms

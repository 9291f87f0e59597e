-- what a reader must believe
pub mod Laws
-- what only the proofs need
pub mod Exchanges
pub mod Asking
pub mod Ages
pub mod Coming

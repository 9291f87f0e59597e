-- what a reader must believe
pub mod Laws
-- what only the proofs need
pub mod Facts
pub mod Events
pub mod Requests
pub mod Installs

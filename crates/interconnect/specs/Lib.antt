-- what a reader must believe
pub mod Links
pub mod Places
-- what only the proofs need
pub mod Flights
pub mod Stored
pub mod Keys

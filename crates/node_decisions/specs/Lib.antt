-- what only the proofs need
pub mod Turns

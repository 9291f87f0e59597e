-- what only the proofs need
pub mod Presidents
pub mod Verdicts

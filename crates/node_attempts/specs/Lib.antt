-- what only the proofs need
pub mod StartSteps
pub mod Told

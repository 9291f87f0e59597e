-- what only the proofs need
pub mod Installs
pub mod Promises
pub mod Starts
pub mod Strangers

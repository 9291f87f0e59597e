pub mod Attempts
pub mod Calls
pub mod Counts
pub mod Installs
pub mod Plans
pub mod Promises
pub mod Seizings

pub mod Entries
pub mod Tasks
pub mod Acts
pub mod Tells
pub mod Walk
pub mod Runs

pub mod Lines
pub mod Outputs
pub mod Calls
pub mod Changes
pub mod Doings
pub mod Steps
pub mod Runs

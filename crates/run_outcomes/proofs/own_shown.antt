pub mod Calls
pub mod Changes
pub mod Acts
pub mod Runs
pub mod Shown

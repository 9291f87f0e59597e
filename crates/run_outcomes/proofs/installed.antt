pub mod Lines
pub mod Changes
pub mod Given
pub mod Steps
pub mod Taking
pub mod Arriving
pub mod Runs

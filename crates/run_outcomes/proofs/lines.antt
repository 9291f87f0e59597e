pub mod Disks
pub mod Answered
pub mod Runs

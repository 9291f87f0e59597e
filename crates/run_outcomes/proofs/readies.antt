pub mod Tables
pub mod Reports
pub mod Logs
pub mod Steps
pub mod Runs

pub mod Allowed
pub mod Decisions
pub mod Goals

pub mod Joined
pub mod Attempts
pub mod Downs
pub mod Messages
pub mod Whole
pub mod Runs

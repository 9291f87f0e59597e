pub mod Again
pub mod Commands
pub mod Keeping
pub mod Replies
pub mod Preparing

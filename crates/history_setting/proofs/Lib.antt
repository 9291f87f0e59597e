pub mod Commands
pub mod Canonical
pub mod Telling
pub mod Votes

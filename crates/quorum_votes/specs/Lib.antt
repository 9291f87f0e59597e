pub mod Changes
pub mod Quorum
pub mod Sums
pub mod Tables
pub mod Votes

pub mod Completes
pub mod Explained
pub mod Opening
pub mod Starting
pub mod Votes

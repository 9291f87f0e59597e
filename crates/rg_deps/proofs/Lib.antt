mod Ascending
mod Choices
mod Chosen
mod Closed
pub mod Counts
mod Next
mod Ranks
pub mod Steps
mod Tables
mod There
pub mod Walks

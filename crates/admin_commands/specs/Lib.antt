pub mod Answers
pub mod Cases
pub mod Managing
pub mod Standing
pub mod Settings
pub mod Orders
pub mod Votes
pub mod Records
pub mod Asks
-- what only the proof needs
pub mod Counts

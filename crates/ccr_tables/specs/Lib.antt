pub mod Changes
pub mod Refusals
pub mod State
pub mod Updates
pub mod Uses

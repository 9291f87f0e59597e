pub mod Standing
pub mod Reports
pub mod Adopting
pub mod Histories
pub mod Outcomes
pub mod Asks
pub mod Changes
pub mod Steps

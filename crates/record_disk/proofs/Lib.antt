pub mod Stops
pub mod Fits
mod Outcomes
pub mod Tied
pub mod Boots

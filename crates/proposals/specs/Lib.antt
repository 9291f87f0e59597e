pub mod State
pub mod Arrivals
pub mod Proposing
pub mod OneEach

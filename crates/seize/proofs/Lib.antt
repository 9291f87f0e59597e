pub mod DeviceAnswers
mod Failures
pub mod Fits
pub mod JoinPast
pub mod Knowing
pub mod Past
pub mod Tells

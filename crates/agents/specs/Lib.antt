pub mod State
pub mod Answers
pub mod Stock
pub mod Calls

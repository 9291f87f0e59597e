pub mod Answers
pub mod Exits

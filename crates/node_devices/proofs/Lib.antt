pub mod Answered
mod Joined

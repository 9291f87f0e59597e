mod Acts
pub mod Along
mod Answered
mod Asks
mod Begins
mod Calls
mod Changes
mod Doings
mod Dues
mod Entries
mod Fulls
mod Links
mod News
pub mod Runs
mod Sends
mod Silent
pub mod Stepping
mod Steps
mod Taken
mod Told
mod Turns

mod Places
mod Tables
mod Lists
mod Shown
mod Steps
mod Indexes
mod Slots
mod Finds
mod Sends
mod Crowds
pub mod FirstFrom

pub mod Slots
mod Stopped

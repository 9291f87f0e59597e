pub mod Worlds
pub mod Calls
pub mod Sends
pub mod Packets
pub mod Devices
pub mod Rounds
pub mod Lines
pub mod First

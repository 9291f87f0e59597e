pub mod Devices
pub mod Commands
pub mod Tasks
pub mod Moves
pub mod Laws

pub mod Calls
pub mod Laws
pub mod Queue
pub mod Tasks

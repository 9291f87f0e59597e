pub mod Phase
pub mod Device
pub mod Initiator
pub mod Attempt
pub mod Sharing
pub mod Laws
pub mod Growth
pub mod Sample

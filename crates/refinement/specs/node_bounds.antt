pub mod Sends
pub mod Bounded
pub mod Laws

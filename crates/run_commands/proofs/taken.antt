pub mod Leave
pub mod Walk
pub mod Clients
pub mod Cases
pub mod Free
pub mod Members
pub mod Commands
pub mod Laws

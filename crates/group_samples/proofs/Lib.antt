pub mod Limits
pub mod Allowed
pub mod Failover
pub mod FailoverHistory
pub mod Fault
pub mod Serving
pub mod Clients

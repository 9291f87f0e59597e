pub mod Safe
pub mod Membership
pub mod Quiet
pub mod Limits

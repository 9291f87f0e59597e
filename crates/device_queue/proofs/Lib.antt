pub mod Begun
pub mod Kept
pub mod Ordered
pub mod Plain
pub mod Steps

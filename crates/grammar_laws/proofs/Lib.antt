pub mod Commands
pub mod Events
pub mod Fields
pub mod Heads
pub mod Lengths

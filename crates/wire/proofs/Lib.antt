pub mod Bodies
pub mod Fields
pub mod Lengths
pub mod Loop
pub mod Messages
pub mod Parts
pub mod Short

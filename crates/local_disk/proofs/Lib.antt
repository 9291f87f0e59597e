pub mod Places
pub mod Spans
pub mod Zeros
mod Left

pub mod Epochs
pub mod Put

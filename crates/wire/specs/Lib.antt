pub mod Epochs
pub mod Kinds
pub mod Lengths
pub mod Reads
pub mod Spelling

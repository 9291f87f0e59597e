pub mod Anys
pub mod Counts

pub mod Ages
pub mod Ticks

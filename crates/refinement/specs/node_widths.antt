pub mod Widths
pub mod Plans

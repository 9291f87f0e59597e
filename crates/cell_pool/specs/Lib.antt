pub mod Cells
pub mod Region
pub mod Made

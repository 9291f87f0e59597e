pub mod Bases
pub mod Fronts
pub mod Headers
pub mod Makes

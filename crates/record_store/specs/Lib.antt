pub mod Images
pub mod Store

mod Among
mod Below
pub mod Ordered
pub mod Keeping
pub mod Complete
pub mod Prefixes
pub mod Reading

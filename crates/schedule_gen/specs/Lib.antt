pub mod Draws
pub mod Events
pub mod Grammar
pub mod Lines
pub mod Progress

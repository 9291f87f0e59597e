pub mod Lines
pub mod Whose
pub mod Steps

pub mod Beside
pub mod Among
pub mod AmongRuns
pub mod Members

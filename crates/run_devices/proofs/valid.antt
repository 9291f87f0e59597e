pub mod Machine
pub mod Lines
pub mod Dues
pub mod Runs
pub mod Members
pub mod Told
pub mod Asked

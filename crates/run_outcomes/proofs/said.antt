pub mod Ended
pub mod Ups
pub mod Silent
pub mod Tales
pub mod Doings
pub mod Steps
pub mod Runs

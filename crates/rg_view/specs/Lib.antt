-- what a reader must believe
pub mod Goals
pub mod Histories
pub mod Marks
pub mod Orders
pub mod Places
pub mod States
pub mod Tables
-- what only the proofs need
pub mod Kept
pub mod PlaceLaws

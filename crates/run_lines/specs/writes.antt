-- what a reader must believe
pub mod Laws
-- what only the proofs need
pub mod Written
pub mod Covers
pub mod Joins
pub mod Ready
pub mod Sites
pub mod Scenes

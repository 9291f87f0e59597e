-- what a reader must believe
pub mod Own
pub mod Numbered
pub mod Laws
pub mod carried
pub mod taken
pub mod acknowledged
-- what only the proofs need
pub mod Answers
pub mod Guards
pub mod Reads

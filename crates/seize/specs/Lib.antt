-- what a reader must believe
pub mod Answers
pub mod Endings
pub mod Exchanges
pub mod Joining
pub mod Keys
pub mod Known
pub mod Seizing
pub mod Shows
pub mod Told
-- what only the proofs need
pub mod SeizeKept

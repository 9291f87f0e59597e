-- what a reader must believe
pub mod Keys
pub mod Kinds
pub mod Limits
pub mod Methods
pub mod Names
pub mod Numbers
pub mod Seizings
pub mod Sets
-- what only the proofs need
pub mod NameFields
pub mod Padded

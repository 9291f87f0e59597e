pub mod Groups
pub mod Resources
-- what the proofs need beside
pub mod Places

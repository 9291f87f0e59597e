-- what a reader must believe
pub mod Disks
pub mod Images
pub mod Laws
pub mod Savings
-- what only the proofs need
pub mod Inside

-- what a reader must believe
pub mod LocalDisk
pub mod Memory
-- what only the proofs need
pub mod MemoryInside

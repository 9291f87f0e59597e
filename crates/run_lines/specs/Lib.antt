-- what a reader must believe
pub mod Laws
pub mod rounds
pub mod few
pub mod writes
-- what only the proofs need
pub mod Entries

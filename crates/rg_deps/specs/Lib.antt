-- what a reader must believe
pub mod Cycles
pub mod Edges
pub mod Laws
pub mod Orderings
pub mod Order
pub mod Things
-- what only the proofs need
pub mod Choice
pub mod Flags
pub mod Places

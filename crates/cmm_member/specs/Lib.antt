-- what a reader must believe
pub mod Records
pub mod Nodes
pub mod Machine
pub mod Views
pub mod Lengths
-- what only the proofs need
pub mod Lists

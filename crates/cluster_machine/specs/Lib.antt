-- what a reader must believe
pub mod Cluster
pub mod Agreement
pub mod Parts
pub mod Sample
-- what only the proofs need
pub mod Machines

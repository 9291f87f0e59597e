-- what only the proofs need
pub mod Due
pub mod Handing
pub mod Ticks
pub mod Updates

-- what only the proofs need
pub mod Again
pub mod Calling
pub mod Carrying
pub mod Ending
pub mod Obeying
pub mod Reporting

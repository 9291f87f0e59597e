pub mod Bytes
pub mod Ends
pub mod Pieces
pub mod Rounds

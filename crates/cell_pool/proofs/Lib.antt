pub mod Walks
pub mod Pieces
pub mod Frames
pub mod Fills
pub mod Whole
pub mod Moves
pub mod Makes
pub mod All

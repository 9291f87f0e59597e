pub mod Ties
pub mod Moves
pub mod Laws
pub mod Told

pub mod Due
pub mod Peers
pub mod State
pub mod Views

pub mod Cases
pub mod ClientLemmas
pub mod Exact
pub mod StateLemmas
pub mod Sticks
pub mod TurnLemmas

pub mod PlaceLemmas
pub mod QuorumLemmas
pub mod SumLemmas

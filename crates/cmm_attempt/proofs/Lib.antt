pub mod Basics
pub mod NewestLemmas

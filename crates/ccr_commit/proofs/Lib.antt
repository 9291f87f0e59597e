pub mod EntryLemmas
pub mod NewestLemmas

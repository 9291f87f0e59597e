pub mod EntryLemmas
pub mod ListLemmas
pub mod RowLemmas
pub mod NodeLemmas
pub mod DeviceLemmas
pub mod KeyLemmas
pub mod TextLemmas

pub mod FirstNumbers
pub mod NameLemmas
pub mod SetLemmas

pub mod HeaderLemmas
pub mod NameLemmas
pub mod NodeLemmas
pub mod NumberLemmas
pub mod PrintedLemmas
pub mod WordLemmas

pub mod DrawLemmas
pub mod EventLemmas
pub mod GrammarLemmas
pub mod ProgressLemmas
pub mod WordLemmas

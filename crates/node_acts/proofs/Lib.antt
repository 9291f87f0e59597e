pub mod JoinLemmas
pub mod UnknownLines

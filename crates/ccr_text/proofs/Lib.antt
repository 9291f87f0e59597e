pub mod CutLemmas
pub mod OneAnswer
pub mod RowLemmas
pub mod TableLemmas
pub mod TextLengths

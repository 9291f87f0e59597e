pub mod Spellings
pub mod Operands
pub mod Answers
pub mod Laws

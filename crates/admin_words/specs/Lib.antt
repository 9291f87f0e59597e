pub mod Methods
pub mod Operands
pub mod Spellings
pub mod Answers
pub mod Commands

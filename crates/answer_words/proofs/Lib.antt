pub mod Cuts
pub mod Operands
pub mod Replies

pub mod Commanding
pub mod Preparing
pub mod Replying
pub mod Ticking
pub mod Memory
pub mod Asking
pub mod LastPrepared

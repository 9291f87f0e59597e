pub mod Asking
pub mod Ending
pub mod Laws
pub mod Machine
pub mod Repeating
pub mod Sending
pub mod Staying
pub mod Waiting

pub mod Lasting
pub mod Queues
pub mod Told

pub mod readings
pub mod valid
pub mod installs
pub mod validity
pub mod queues

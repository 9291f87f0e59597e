pub mod Installs
mod Names
mod Promises
pub mod Readings
mod Requests

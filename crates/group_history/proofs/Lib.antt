pub mod Within
pub mod Due
pub mod Clients

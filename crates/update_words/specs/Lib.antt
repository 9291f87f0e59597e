pub mod Joined
pub mod Methods
pub mod Words

pub mod InForce
pub mod Lists

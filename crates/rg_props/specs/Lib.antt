pub mod Affinities
pub mod Lookups
pub mod Properties
pub mod Settings
pub mod Table
pub mod Values
pub mod Words

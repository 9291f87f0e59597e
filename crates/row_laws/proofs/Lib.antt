pub mod Values
pub mod Keys
pub mod Things
pub mod Settings
pub mod Sound
pub mod Tables

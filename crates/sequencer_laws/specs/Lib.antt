pub mod Flags
pub mod Situations
pub mod AllowedCall
pub mod Views
pub mod Laws
pub mod Orders

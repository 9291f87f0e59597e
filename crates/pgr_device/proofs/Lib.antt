pub mod FirstKeys
pub mod Keeps
pub mod Laws
pub mod Room
pub mod RunParts
pub mod ZeroKeys

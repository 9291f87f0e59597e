pub mod Again
pub mod Governing
pub mod Handed
pub mod Hearing
pub mod Known
pub mod Left
pub mod Moving
pub mod Ticking

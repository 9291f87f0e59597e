-- what a reader must believe
pub mod Laws
pub mod AtDevices
-- what only the proofs need
pub mod Courses
pub mod Known
pub mod Idle
pub mod Inside

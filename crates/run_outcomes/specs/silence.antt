-- what a reader must believe
pub mod Laws
-- what only the proofs need
pub mod Asked
pub mod AskedCourses
pub mod Gone
pub mod Readied
pub mod OwnPart
pub mod Still
pub mod Ticks
pub mod Beats
pub mod Ends
pub mod Anew

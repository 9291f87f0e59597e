-- what a reader must believe
pub mod Laws
-- what only the proofs need
pub mod Asks
pub mod AsksGiven
pub mod AsksCourses
pub mod Own
pub mod Said
pub mod Answers
pub mod Shown
pub mod Entries
pub mod OwnTasks
pub mod Quiet
pub mod Showing
pub mod OwnPromise
pub mod Left
pub mod Outward
pub mod Onward
pub mod Others
pub mod Lasting

-- what a reader must believe
pub mod RecordRuns
-- what only the proofs need
pub mod Answers
pub mod Losses
pub mod Shown
pub mod Sound
pub mod Kept
